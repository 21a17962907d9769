mod WorkedRun
