-- A run as the code hands it on: its place and how many groups it has.
use Rattle.std.specs.Prelude.{ℕ}
use Rattle.text_ipv6_write.specs.declared.runs.Run.{Run}

abbrev pub run_of : Run → ℕ × ℕ
run_of r = (r.at, r.count)
