mod Seeing
mod Merging
mod Owes
mod Watchful
mod Audited
