-- The lemmas of what a drill counts, and of its books.
pub mod CountLemmas
pub mod DrillPlaceLemmas
pub mod ExchangeLemmas
pub mod HonestLemmas
pub mod PeerLemmas
pub mod PlaceLemmas
