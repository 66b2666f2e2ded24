-- Report: the audit's report as bytes. Needs: what the code needs.
-- Rests on audit_records, audit_books, audit_lacks, audit_witness, audit_table and audit_files.
pub mod Report
pub mod Needs
