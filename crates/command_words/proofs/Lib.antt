mod ClapLemmas
mod Spellings
