mod NearLemmas
