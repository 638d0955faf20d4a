pub mod Delivery
pub mod Held
pub mod Order
pub mod TaskStages
pub mod RunEnds
pub mod Results
