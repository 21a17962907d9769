mod AccessLemmas
mod StoreLemmas
