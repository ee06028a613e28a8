mod Cuts
mod Edits
mod Found
mod Keys
mod Orders
mod Ranges
