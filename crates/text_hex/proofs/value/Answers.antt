-- `value` meets its contract, range by range. Assumes nothing.
use mathlib.Core.Path.{sym}
use native.Mathlib.Omega.{arith}
use Rattle.text_hex.proofs.Digits.{hex_value-digit, hex_value-lower, hex_value-upper, hex_value-none}
use Rattle.text_hex.proofs.value.Goals as goal

pub returns-in-48-to-57 : goal.returns-in-48-to-57
returns-in-48-to-57 c = record { value = sym (hex_value-digit c.args.b (omega arith) (omega arith)); upper_bound = omega arith }

pub returns-in-97-to-102 : goal.returns-in-97-to-102
returns-in-97-to-102 c = record { value = sym (hex_value-lower c.args.b (omega arith) (omega arith)); upper_bound = omega arith }

pub returns-in-65-to-70 : goal.returns-in-65-to-70
returns-in-65-to-70 c = record { value = sym (hex_value-upper c.args.b (omega arith) (omega arith)); upper_bound = omega arith }

pub returns-in_default : goal.returns-in_default
returns-in_default c = record { value = hex_value-none c.args.b (λ h k. omega arith) (λ h k. omega arith) (λ h k. omega arith); upper_bound = omega arith }

pub returns-in_default-2 : goal.returns-in_default-2
returns-in_default-2 c = record { value = hex_value-none c.args.b (λ h k. omega arith) (λ h k. omega arith) (λ h k. omega arith); upper_bound = omega arith }

pub returns-in_default-3 : goal.returns-in_default-3
returns-in_default-3 c = record { value = hex_value-none c.args.b (λ h k. omega arith) (λ h k. omega arith) (λ h k. omega arith); upper_bound = omega arith }

pub returns-in_default-4 : goal.returns-in_default-4
returns-in_default-4 c = record { value = hex_value-none c.args.b (λ h k. omega arith) (λ h k. omega arith) (λ h k. omega arith); upper_bound = omega arith }
