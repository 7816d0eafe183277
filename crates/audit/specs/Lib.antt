pub mod Audit
pub mod AuditLaws
pub mod Apart
pub mod Agreement
