use Rattle.wat_isolation.proofs.Cases.{scan_runs, insert_past, insert_before, update_read, delete_read, insert_before_own, insert_before_undone, scan_beside_insert, scan_beside_delete, visit_beside_update, scan_over_vacant}
use Rattle.wat_isolation.proofs.worked_cases.Goals as goal

pub returns-clause-scan_runs : goal.returns-clause-scan_runs
returns-clause-scan_runs c = scan_runs

pub returns-clause-insert_past : goal.returns-clause-insert_past
returns-clause-insert_past c = insert_past

pub returns-clause-insert_before : goal.returns-clause-insert_before
returns-clause-insert_before c = insert_before

pub returns-clause-update_read : goal.returns-clause-update_read
returns-clause-update_read c = update_read

pub returns-clause-delete_read : goal.returns-clause-delete_read
returns-clause-delete_read c = delete_read

pub returns-clause-insert_before_own : goal.returns-clause-insert_before_own
returns-clause-insert_before_own c = insert_before_own

pub returns-clause-insert_before_undone : goal.returns-clause-insert_before_undone
returns-clause-insert_before_undone c = insert_before_undone

pub returns-clause-scan_beside_insert : goal.returns-clause-scan_beside_insert
returns-clause-scan_beside_insert c = scan_beside_insert

pub returns-clause-scan_beside_delete : goal.returns-clause-scan_beside_delete
returns-clause-scan_beside_delete c = scan_beside_delete

pub returns-clause-visit_beside_update : goal.returns-clause-visit_beside_update
returns-clause-visit_beside_update c = visit_beside_update

pub returns-clause-scan_over_vacant : goal.returns-clause-scan_over_vacant
returns-clause-scan_over_vacant c = scan_over_vacant
