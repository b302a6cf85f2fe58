-- The lemmas of what a till reads in a reply.
pub mod ReplyReadLemmas
