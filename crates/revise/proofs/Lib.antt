mod Revising
