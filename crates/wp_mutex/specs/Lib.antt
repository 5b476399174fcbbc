pub mod PossiblePairs
pub mod Laws
pub mod WorkList
pub mod PairPlaces
