pub mod OpenList
