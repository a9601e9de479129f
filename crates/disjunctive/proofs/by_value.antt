mod LentCounts
