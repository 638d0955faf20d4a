pub mod FewNeeded
