mod UnitTold
