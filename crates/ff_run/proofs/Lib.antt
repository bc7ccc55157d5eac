mod ServeLemmas
