mod Walks
mod Tables
