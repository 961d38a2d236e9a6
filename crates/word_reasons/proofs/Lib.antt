mod Wanted
