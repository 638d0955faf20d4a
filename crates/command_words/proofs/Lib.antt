mod Accepted
mod Full
mod Rows
