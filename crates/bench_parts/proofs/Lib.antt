mod TouchedLemmas
