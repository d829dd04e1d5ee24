pub mod Partition
pub mod Laws
pub mod BoxLists
