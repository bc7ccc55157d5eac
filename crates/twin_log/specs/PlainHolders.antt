-- Which file has the log, in the code.
use Rattle.twin_log.specs.Twins.{LogHolder, Neither, On, Both}
use Rattle.twin_log.specs.declared.side.Holding.{Holding}
use Rattle.twin_log.specs.declared.side.Holding.TheVariants as holding

abbrev pub plain_log_holder : Holding → LogHolder
plain_log_holder holding.Neither = Neither
plain_log_holder (holding.On side) = On side
plain_log_holder holding.Both = Both
