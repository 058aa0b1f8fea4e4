-- To believe: the commands but `--help`.

pub data Command : Type 0 where
  Blif : Command
  C : Command
  Verilog : Command
  Grc : Command
  Check : Command
  Run : Command
  Exec : Command
  Gen : Command
