mod RootLemmas
