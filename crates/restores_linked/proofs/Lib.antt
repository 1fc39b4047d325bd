mod Under
