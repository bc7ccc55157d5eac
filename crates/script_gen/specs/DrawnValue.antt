-- What the code's line says.
use Rattle.script_gen.specs.declared.line.DrawnLine.{DrawnLine as CodeLine}
use Rattle.script_gen.specs.declared.line.DrawnLine.TheVariants as code
use Rattle.script_gen.specs.Generated.{DrawnLine, FillLine, CommitLine, ReturnLine, ReadLine, RecallLine, TickLine, RestartLine, ServerTimeout, ClientTimeout, ResilverLine, DeliverLine, FlowLine}

abbrev pub drawn_value : CodeLine → DrawnLine
drawn_value (code.Fill client at count byte) = FillLine client at count byte
drawn_value (code.Commit client) = CommitLine client
drawn_value (code.Return client) = ReturnLine client
drawn_value (code.Read client at count) = ReadLine client at count
drawn_value (code.Recall file) = RecallLine file
drawn_value (code.Tick seconds) = TickLine seconds
drawn_value (code.Restart server) = RestartLine server
drawn_value (code.TimeoutOfMds server) = ServerTimeout server
drawn_value (code.TimeoutOfClient client server) = ClientTimeout client server
drawn_value (code.Resilver file) = ResilverLine file
drawn_value (code.Deliver packet) = DeliverLine packet
drawn_value code.Flow = FlowLine
