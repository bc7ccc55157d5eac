mod CalleeLemmas
mod LinkLemmas
