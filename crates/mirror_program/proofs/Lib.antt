mod WordLists
mod Progressing
mod Complete
mod Watching
