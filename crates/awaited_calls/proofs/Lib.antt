mod NumberedCalls
