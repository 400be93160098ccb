mod WorkedLimits
