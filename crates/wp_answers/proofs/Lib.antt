mod Rows
mod SearchRows
mod NumberedRows
mod AnswerRows
mod FileRows
mod CertificateRows
