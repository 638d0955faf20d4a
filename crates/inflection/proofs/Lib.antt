mod Tables
mod Pieces
mod Cases
