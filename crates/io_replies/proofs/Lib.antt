mod Numbered
mod ReadObjects
mod Framework
mod ReplyLaws
mod WrittenReplies
mod WrittenEvents
mod Payloads
mod ToldKinds
