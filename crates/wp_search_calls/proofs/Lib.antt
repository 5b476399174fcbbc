pub mod ShuttleLemmas
