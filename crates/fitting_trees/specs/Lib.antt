pub mod ValidTrees
