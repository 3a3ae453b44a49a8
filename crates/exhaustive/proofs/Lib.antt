-- The laws of the exhaustive ranker, bottom-up: what right summaries say (Chains); a list brought on to its next block
-- (Refills), and all lists (Fillings); what the lists have in all (Wholes), and what a run up to the horizon does to it (Horizons); the lists at the
-- start (Opens) and the merge (Merges); the first wrong body (Wrongs); the lists that the walk found (Founds); a sound shelf (Sound); the answer (Alls).
pub mod Chains
pub mod Refills
pub mod Fillings
pub mod Wholes
pub mod Horizons
pub mod Opens
pub mod Merges
pub mod Wrongs
pub mod Founds
pub mod Sound
pub mod Alls
