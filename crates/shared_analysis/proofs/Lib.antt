mod CaseLemmas
mod NumberLemmas
mod OwnLemmas
mod GroupLemmas
