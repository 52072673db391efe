use Rattle.wat_budget.proofs.Counting.{within, opens, grows, takes_row, frees_row, saves}
use Rattle.wat_budget.proofs.laws.budget_laws.Goals as goal

pub returns : goal.returns
returns c = record { bound = within; opens = opens; grows = grows; takes_row = takes_row; frees_row = frees_row; saves = saves }
