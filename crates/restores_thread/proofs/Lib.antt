mod Threading
