mod Buffered
