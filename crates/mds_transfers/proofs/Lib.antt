mod NoBytes
