mod KeyLists
mod Rosters
