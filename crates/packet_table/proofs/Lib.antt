-- the first that passes a test, in lists that change
mod FirstWaiting
-- two machines have a number that no other two have
mod MachineKeys
-- the numbers of the packets between two machines, in lists that change, and which came
mod LineLists
-- what waits once packets between two machines are held no longer
mod PassedPackets
-- the lines have their packets, whatever is done
mod FoundPackets
