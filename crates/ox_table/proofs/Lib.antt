mod Cuts
mod Filters
mod Last
mod Places
mod Search
