pub mod KeySets
