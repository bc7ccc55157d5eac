mod SessionEnds
