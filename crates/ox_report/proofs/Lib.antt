mod OriginLemmas
