mod GivenResults
