mod Ended
mod Examples
mod Nodes
mod Rows
mod Shown
