mod Ends
mod Digits
mod Fields
mod Reading
