mod TextCircuits
