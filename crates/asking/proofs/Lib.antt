mod Answering
mod Noting
mod Reading
mod RoundParts
