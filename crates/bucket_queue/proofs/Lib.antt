mod Stacks
