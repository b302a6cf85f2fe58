-- The lemmas of bridges.
mod DeliveryLemmas
mod ResultLemmas
mod TurnLemmas
